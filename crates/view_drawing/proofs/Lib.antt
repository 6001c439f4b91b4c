pub mod DrawingLaws
