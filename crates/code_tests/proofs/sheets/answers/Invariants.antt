use Rattle.code_tests.proofs.sheets.answers.Given as goal

abbrev pub ghosts-observe : goal.ghosts-observe
ghosts-observe g a = record { name = a.blank.name; parts = a.blank.parts }
