use Rattle.yaml_read.proofs.{TextWords.due_words, TextWords.read_words, WordSteps.node_words, WordsBehind.behind_words}
use Rattle.yaml_read.proofs.laws.words_are_those_of_texts.Goals as goal

pub returns-clause-at_node : goal.returns-clause-at_node
returns-clause-at_node c root levels bytes due = due_words root levels bytes due

pub returns-clause-behind_node : goal.returns-clause-behind_node
returns-clause-behind_node c root levels value bytes read = read_words root levels value bytes read

pub returns-clause-begins : goal.returns-clause-begins
returns-clause-begins c levels words room are = node_words levels words room are

pub returns-clause-goes_on : goal.returns-clause-goes_on
returns-clause-goes_on c levels value words are = behind_words levels value words are
