mod Closed
mod Walks
mod Spending
