pub mod ProcessedBy
pub mod KeptInside
pub mod EventsDone
pub mod NodesDone
pub mod CollectionsDone
pub mod DocumentsDone
pub mod SeenTexts
