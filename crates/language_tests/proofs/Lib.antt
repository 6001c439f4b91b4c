pub mod TwoNumbers
pub mod ValueRows
