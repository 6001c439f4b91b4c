pub mod ValueRows
