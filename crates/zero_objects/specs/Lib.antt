pub mod ZeroNumbers
