mod KeyLaws
mod KeptLaws
mod Following
mod KnownWords
mod RoundLaws
mod StepLaws
