mod LoadedSessions
mod Loading
mod Shops
mod Summing
mod Worked
