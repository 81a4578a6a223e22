pub mod Values
pub mod Laws
pub mod Lists
pub mod RoundTrip
