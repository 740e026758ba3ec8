mod Shifting
mod Succeeding
mod Next
mod NextValue
mod Widths
