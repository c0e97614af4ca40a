pub mod Scalar
