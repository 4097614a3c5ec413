mod PageParts
mod Parts
mod Trimmed
mod ClauseExamples
