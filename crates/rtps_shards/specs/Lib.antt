pub mod Results
pub mod Apart
pub mod Board
pub mod Ends
pub mod Work
