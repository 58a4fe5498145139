pub mod Logs
pub mod Mail
pub mod Kept
pub mod Origins
