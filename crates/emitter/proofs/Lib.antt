pub mod Videos
