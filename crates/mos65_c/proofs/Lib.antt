mod Begun
mod Cleaned
mod Recorded
mod Refused
mod RunsOfOne
mod Shown
mod TouchingRuns
