pub mod RecordsSoFar
