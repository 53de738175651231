pub mod Answer
pub mod Card
pub mod Fault
pub mod Listing
pub mod ListingLaws
pub mod TicLaws
pub mod Told
