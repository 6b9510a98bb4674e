mod Members
mod Paths
mod Leaves
