pub mod Exchange
pub mod Inside
pub mod Laws
pub mod Link
pub mod Replies
pub mod Room
