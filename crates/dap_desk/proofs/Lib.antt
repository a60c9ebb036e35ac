mod BreakList
mod LineCalls
mod LineRuns
