mod Lines
mod Each
