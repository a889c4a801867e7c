pub mod Named
pub mod Read
