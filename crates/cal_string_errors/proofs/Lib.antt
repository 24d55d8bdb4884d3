mod Nothing
mod FieldSentences
