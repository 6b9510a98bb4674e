mod Amending
mod Seeing
