pub mod Handing
pub mod Registration
pub mod Subscription
pub mod TopicRows
