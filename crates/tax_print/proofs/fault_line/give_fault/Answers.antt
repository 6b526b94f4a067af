use Rattle.std.proofs.Common.{◌++◌, codes, decimal}
use Rattle.tax_print.specs.FaultLines.{names_text}
use Rattle.tax_print.proofs.NamesLemmas.{as_one}
use Rattle.tax_print.proofs.fault_line.give_fault.Goals as goal

pub returns-in-Words : goal.returns-in-Words
returns-in-Words g c = rw c.in-Words.is c.give_words.ensures

pub returns-in-OfName : goal.returns-in-OfName
returns-in-OfName g c = rw c.in-OfName.is (as_one _ _ _ _ _ (λ text. text) c.in-OfName.words.now c.in-OfName.name.now c.give_words-in-OfName.ensures)

pub returns-in-OfNames : goal.returns-in-OfNames
returns-in-OfNames g c = rw c.in-OfNames.is (as_one _ _ _ _ _ (λ text. text) c.in-OfNames.words.now (names_text c.in-OfNames.names.now) c.give_names.ensures)

pub returns-in-OfNumber : goal.returns-in-OfNumber
returns-in-OfNumber g c = rw c.in-OfNumber.is (as_one _ _ _ _ _ (λ text. text) c.in-OfNumber.words.now (decimal c.in-OfNumber.number) c.give_number.ensures)

pub returns-in-InInput : goal.returns-in-InInput
returns-in-InInput g c = rw c.in-InInput.is c.give_input.ensures

pub returns-in-AtLine : goal.returns-in-AtLine
returns-in-AtLine g c = rw c.in-AtLine.is c.give_line.ensures

pub returns-in-AtLineName : goal.returns-in-AtLineName
returns-in-AtLineName g c = rw c.in-AtLineName.is (as_one _ _ _ _ _
    (λ text. codes "refused " ++ (c.in-AtLineName.input.now ++ (codes " line " ++ (decimal c.in-AtLineName.line ++ (codes ": " ++ text)))))
    c.in-AtLineName.words.now c.in-AtLineName.name.now c.give_line-in-AtLineName.ensures)

pub returns-in-AtPlace : goal.returns-in-AtPlace
returns-in-AtPlace g c = rw c.in-AtPlace.is c.give_place.ensures

pub returns-in-AtPlaceName : goal.returns-in-AtPlaceName
returns-in-AtPlaceName g c = rw c.in-AtPlaceName.is (as_one _ _ _ _ _
    (λ text. codes "refused " ++ (c.in-AtPlaceName.file.now ++ (codes " line " ++ (decimal c.in-AtPlaceName.place.line ++ (codes " byte "
    ++ (decimal c.in-AtPlaceName.place.byte ++ (codes ": " ++ text)))))))
    c.in-AtPlaceName.words.now c.in-AtPlaceName.name.now c.give_place-in-AtPlaceName.ensures)
