pub mod OneGoal
