mod CrossingList
pub mod Lists
