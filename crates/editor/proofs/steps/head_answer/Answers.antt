-- `head_answer` meets its contract: it goes by the kind, as the definition.
use Rattle.editor.proofs.steps.head_answer.Goals as goal

pub returns-in-Replacing : goal.returns-in-Replacing
returns-in-Replacing c = rw c.in-Replacing.is c.new_head.ensures

pub returns-in-Appending : goal.returns-in-Appending
returns-in-Appending c = rw c.in-Appending.is c.new_head-in-Appending.ensures
