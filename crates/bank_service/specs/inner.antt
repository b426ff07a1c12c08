pub mod AtOnceSteps
pub mod FindSteps
pub mod ServeSteps
pub mod StepFaults
