mod OneAnswer
mod OneFormatAnswer
mod OneNamedAnswer
mod OneTextAnswer
