-- Whether a session may call.
pub mod Standing
