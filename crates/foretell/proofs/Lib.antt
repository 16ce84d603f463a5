-- Laws of the check: of one act, of the walk over the steps, and of the span of the step that it names.
pub mod CheckSoFar
pub mod Judgements
pub mod ReadyActs
pub mod SpanNamed
