-- computed tests, and the Newton step
pub mod Ranges
pub mod Runs
pub mod Guesses
pub mod Newton
-- squares
pub mod SquareGuess
pub mod SquareSecond
pub mod SquareFinish
pub mod Resonance
pub mod Square16
pub mod Square32
pub mod Square64
-- cubes
pub mod Sides
pub mod Spans
pub mod CubeSteps
pub mod CubeFinish
pub mod Cube16
pub mod Cube32
pub mod Cube64
-- every cell, and the calls
pub mod Cells
pub mod Calls
