-- Facts about each document of a stream, in order.
use Rattle.yaml_base.proofs.Common.{arith, nat_tests}
use Rattle.yaml_base.proofs.Common.{Bool, true, List, [], ◌++◌, ◌∷◌, ◌≡◌, sym, ◌∙◌, and_parts, list_all-append, list_all, Event, Document, Documents}
use Rattle.yaml_base.proofs.Common.{no_documents, documents_and, document_events, documents_events, documents_in_order}

-- P holds of each of some documents
abbrev pub AllDocuments : (Document → Type 0) → List Document → Type 0
AllDocuments P [] = Unit {0}
AllDocuments P (document ∷ rest) = P document × AllDocuments P rest

-- of some documents, and then of others
pub documents_both : (P : Document → Type 0) (some others : List Document) → AllDocuments P some → AllDocuments P others → AllDocuments P (some ++ others)
documents_both P [] others h k = k
documents_both P (document ∷ rest) others h k = (h.0, documents_both P rest others h.1 k)

-- a test on both of two lists
pub all_of_both : (test : Event → Bool) (some others : List Event) → list_all test (some ++ others) ≡ true
    → (list_all test some ≡ true) × (list_all test others ≡ true)
all_of_both test some others h = and_parts (list_all test some) (list_all test others) (sym (list_all-append test some others) ∙ h)

-- if a test on a document's events implies a fact about it, the test on those of all documents implies the fact for each
pub each_document : (P : Document → Type 0) (test : Event → Bool) → ((document : Document) → list_all test (document_events document) ≡ true → P document)
    → (documents : Documents) → list_all test (documents_events documents) ≡ true → AllDocuments P (documents_in_order documents)
each_document P test tells no_documents h = tt
each_document P test tells (documents_and before document) h = grind (arith, nat_tests, all_of_both, documents_both, each_document P test tells before)

-- a fact about each that follows from another one
pub documents_given : (P Q : Document → Type 0) (documents : List Document) → AllDocuments (λ document. P document → Q document) documents
    → AllDocuments P documents → AllDocuments Q documents
documents_given P Q [] then h = tt
documents_given P Q (document ∷ rest) then h = (then.0 h.0, documents_given P Q rest then.1 h.1)
