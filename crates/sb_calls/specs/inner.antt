pub mod BehaviourLaws
pub mod Bounds
pub mod Verbs
