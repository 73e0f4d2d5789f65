-- The theorems: whose edges lie under a hole's anchor, and what 12 means.
pub mod Under
pub mod Waiting
pub mod Orphans
pub mod Twelve
