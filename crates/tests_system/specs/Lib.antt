pub mod Unlawful
