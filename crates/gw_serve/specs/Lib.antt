pub mod Count
pub mod Serving
pub mod inner
