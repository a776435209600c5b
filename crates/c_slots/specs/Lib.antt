pub mod Maybe
