use Rattle.compose.proofs.Filling.{word_of}
use Rattle.compose.proofs.records.Contents.write.Goals as goal

pub returns-clause-word : goal.returns-clause-word
returns-clause-word c =
    let fills = c.draft.ensures.fills in
    word_of fills (c.seal.ensures.seals fills.drafted) c.encode.ensures.encodes c.encode.ensures.only c.encode.ensures.checked
    (c.seal.ensures.examined fills.drafted)
