pub mod TripLemmas
