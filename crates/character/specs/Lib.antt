pub mod Controls
pub mod Forms
pub mod Reader
