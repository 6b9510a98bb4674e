mod Drained
mod Parted
mod Following
mod Running
mod InTurn
mod PairSteps
