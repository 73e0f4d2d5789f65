-- What the public function promises.
pub mod Promises
