pub mod Magma
