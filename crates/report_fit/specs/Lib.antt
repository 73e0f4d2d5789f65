-- The theorems: after extraction and binding every contour is reported, and the areas behind add up; a contour by itself is reported.
pub mod Totals
pub mod Alone
