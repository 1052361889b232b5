mod Contents
mod Dates
mod Digits
