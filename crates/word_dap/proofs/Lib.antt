mod Fitting
mod Refusals
mod Runs
mod Sent
