pub mod CutAtLineFeed
