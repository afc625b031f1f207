mod Unique
mod Arguments
mod Texts
mod Numbers
mod Parsed
mod Rows
