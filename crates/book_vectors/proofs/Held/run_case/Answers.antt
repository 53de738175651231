use Rattle.book_vectors.proofs.Held.run_case.Goals as goal

-- the book that is held lies within the buffer
pub shared_ref_as_front-run_question : goal.shared_ref_as_front-run_question
shared_ref_as_front-run_question g c = (c.args.self.now.sound c.in-81-Some.size c.in-81-Some.is-1).0
