-- The cursor's moves, from a place of the text to the place that each leads to, and the place that is pointed at: lemmas.
pub mod CachedStops
pub mod WordRows
