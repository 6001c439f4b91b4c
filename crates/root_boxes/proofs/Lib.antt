pub mod RootSteps
