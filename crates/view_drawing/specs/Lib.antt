pub mod Canvas
pub mod CanvasViews
pub mod Classes
pub mod Names
pub mod ShapeViews
pub mod Shapes
pub mod Sheet
pub mod Svg
