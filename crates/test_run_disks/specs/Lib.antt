pub mod FileImages
