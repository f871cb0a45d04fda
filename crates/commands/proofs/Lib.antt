mod Numbers
mod Ids
mod Takings
mod Sayings
mod Written
mod Lawful
